-- Laws that the proofs of several functions cite.
pub mod Agreeing
pub mod Walking
pub mod Leading
pub mod Giving
pub mod Answers
