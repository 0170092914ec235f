-- Laws that the proofs of several functions cite.
pub mod Steps
pub mod Answers
pub mod Euclid
pub mod Kept
