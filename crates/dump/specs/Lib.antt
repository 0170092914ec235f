-- What writing a run as a Value Change Dump comes to.
pub mod Wrote
pub mod Shapes
pub mod Lengths
