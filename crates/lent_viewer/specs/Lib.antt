-- Lists alike show the same.
pub mod Alike
