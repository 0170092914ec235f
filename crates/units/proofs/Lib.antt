-- Laws of the conversions, and the divisions of std.
pub mod Laws
pub mod Division
