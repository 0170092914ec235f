-- What the lent form of a list comes to.
pub mod Shapes
pub mod Beyond
pub mod Lent
