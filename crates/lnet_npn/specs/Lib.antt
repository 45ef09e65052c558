pub mod Transforms
pub mod Exchanges
pub mod Rewiring
pub mod Marks
