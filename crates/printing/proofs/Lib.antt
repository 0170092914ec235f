-- Laws that the proofs cite.
pub mod Chain
pub mod Signed
pub mod Rooms
pub mod Lengths
