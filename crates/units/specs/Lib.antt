-- The conversions from microseconds to slices: definitions, and what follows from them.
pub mod Conversion
pub mod Laws
