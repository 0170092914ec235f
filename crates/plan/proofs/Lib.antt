-- The theory of plans: laws of what specs/ defines, and the theorems that the promises rest on.
pub mod Rank
pub mod Order
pub mod Work
pub mod Run
pub mod Counting
pub mod Progress
pub mod Events
pub mod Ahead
pub mod Domination
pub mod Busy
pub mod ExactTest
pub mod Points
pub mod Tried
