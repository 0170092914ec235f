-- Laws that the proofs of several functions cite.
pub mod Tightest
pub mod Handing
pub mod Turning
pub mod Cycle
pub mod Signed
pub mod Answers
pub mod Told
