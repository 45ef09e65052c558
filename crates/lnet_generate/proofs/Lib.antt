pub mod Onto
pub mod Numbered
pub mod Steps
