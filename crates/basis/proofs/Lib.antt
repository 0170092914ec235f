-- Laws of what specs/ defines.
pub mod Slices
pub mod Overwritten
