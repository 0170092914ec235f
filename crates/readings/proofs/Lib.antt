-- Laws of the readings.
pub mod Laws
