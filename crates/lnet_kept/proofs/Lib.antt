pub mod Taken
pub mod Facts
