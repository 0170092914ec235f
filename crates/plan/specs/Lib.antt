-- A plan of tasks in slices: the definitions (Plan), and what the theorems on them are stated with; those stand in proofs/.
pub mod Plan
pub mod Rank
pub mod Order
pub mod Work
pub mod Run
pub mod Progress
pub mod Events
pub mod Ahead
pub mod ExactTest
pub mod Points
pub mod Tried
