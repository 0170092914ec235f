-- Texts that the program prints, what writing one comes to, and what follows from the definitions.
pub mod Text
pub mod Written
pub mod Decimal
pub mod Cases
pub mod Shapes
