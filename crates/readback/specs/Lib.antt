-- What reading a Value Change Dump back comes to, and what follows from the definitions.
pub mod Reads
pub mod Determined
pub mod Shapes
