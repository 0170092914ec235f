-- The verdict and the table: definitions first, then what they tell, then the walk that finds them.
pub mod Lateness
pub mod Margin
pub mod Verdict
pub mod Table
pub mod Deadlines
pub mod Ends
pub mod Tightest
pub mod Answers
pub mod Shapes
pub mod Walk
pub mod Settling
