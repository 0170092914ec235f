-- Laws that the proof of the reader's loop cites.
pub mod Turns
pub mod RowForm
pub mod Reading
pub mod Worked
pub mod LineEnds
