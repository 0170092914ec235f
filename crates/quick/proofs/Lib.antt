-- Laws that the proofs of several functions cite.
pub mod Inverse
pub mod Walking
pub mod Answers
