-- The bytes of the numbers that are summed.
pub mod Words
