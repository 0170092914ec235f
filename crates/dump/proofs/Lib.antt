-- Laws that the proofs cite.
pub mod Places
pub mod Turns
pub mod Whole
