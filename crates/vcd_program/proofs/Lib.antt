-- How the program prints what it has to.
pub mod Ways
