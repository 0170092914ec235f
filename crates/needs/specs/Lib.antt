-- Which needs lead the filling run of a plan to a run that was seen: the definitions, and that there is but one candidate.
pub mod Explained
pub mod Candidate
