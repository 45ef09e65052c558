pub mod Assignments
pub mod Cones
pub mod Lanes
pub mod Comparing
