-- Laws that the proof of start cites.
pub mod Answers
