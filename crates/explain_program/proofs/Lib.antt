-- How the program prints what it has to.
pub mod Jobs
pub mod Ways
