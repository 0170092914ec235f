pub mod Checksum
pub mod Determined
