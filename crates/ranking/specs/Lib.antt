-- The tasks of a list by rank: what the arrays hold, and how one more task is put into the order.
pub mod Ranks
pub mod Insertion
