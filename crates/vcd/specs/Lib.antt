-- The form of a Value Change Dump, and what follows from the definitions.
pub mod Form
pub mod Follows
pub mod OneRun
pub mod Beginnings
pub mod Worked
