-- A run of a list that was seen, its checks, and its explanation by needs: the definitions, and how the code says them.
pub mod Seen
pub mod Shapes
