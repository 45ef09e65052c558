pub mod Driving
pub mod Same
