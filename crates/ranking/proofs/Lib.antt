-- Laws that the proofs of both functions cite.
pub mod Ranking
