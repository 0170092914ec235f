-- How the bench keeps its contracts: the turns of its loops.
pub mod Turns
pub mod Reports
pub mod Slices
pub mod Drives
