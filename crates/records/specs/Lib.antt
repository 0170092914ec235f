-- The form of the program's input, and that the reader accepts exactly it.
pub mod Grammar
pub mod LineEnds
pub mod Shapes
