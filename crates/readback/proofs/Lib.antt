-- Laws that the proofs cite.
pub mod Bytes
pub mod Steps
pub mod Quotients
pub mod TwoLines
pub mod Standing
pub mod Changes
pub mod Words
pub mod Whole
pub mod Told
