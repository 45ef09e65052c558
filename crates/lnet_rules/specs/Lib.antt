pub mod Joins
pub mod Rules
pub mod Live
