-- Laws that the proofs of several functions cite.
pub mod Turns
pub mod Asking
pub mod Served
pub mod Answers
