pub mod Covers
pub mod Isop
pub mod Irredundant
pub mod Factored
