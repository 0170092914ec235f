-- The readings of entries, refusal numbers and log bytes: definitions, and what follows from them.
pub mod Reading
