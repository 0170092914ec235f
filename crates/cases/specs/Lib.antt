pub mod File
pub mod Determined
