pub mod Replaced
pub mod Representatives
pub mod Substitutions
pub mod Cascades
pub mod Worked
