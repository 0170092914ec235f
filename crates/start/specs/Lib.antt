-- The start of a run, as the paper gives it.
pub mod Start
