-- The quick question, and what the walk from point to point comes to.
pub mod Quick
pub mod Shapes
