pub mod Orders
pub mod Paths
pub mod Sound
pub mod Worked
