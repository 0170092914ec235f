-- The task list, its plan, its cycle and what bounds it.
pub mod List
pub mod Euclid
pub mod Refusal
pub mod Bounds
pub mod Kept
