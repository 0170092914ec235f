-- What proves the answers on the paper's lists.
pub mod Starred
