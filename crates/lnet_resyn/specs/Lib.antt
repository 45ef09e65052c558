pub mod Majority
pub mod Procedures
pub mod Underway
