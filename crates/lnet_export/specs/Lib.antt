pub mod Exported
pub mod Settling
pub mod Sorting
