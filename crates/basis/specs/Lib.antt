-- Mathematics that every crate shares.
pub mod Choose
pub mod Sum
pub mod Slices
pub mod Least
pub mod Bytes
pub mod Signed
pub mod Answer
pub mod Rules
