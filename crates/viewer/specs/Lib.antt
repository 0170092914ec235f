-- What is written for a viewer, and what is read back and explained: the definitions.
pub mod Viewer
pub mod Shapes
