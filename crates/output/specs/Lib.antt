-- What the programs print for an input, and that they print no other.
pub mod Output
pub mod Quick
pub mod Listed
pub mod Vcd
pub mod Explain
pub mod Building
pub mod Determined
