-- The starred lists of the paper: the statement (Starred) and its proof.
pub mod Lists
pub mod Asked
