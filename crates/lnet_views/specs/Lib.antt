pub mod Repair
pub mod Rules
pub mod Keeping
pub mod Building
pub mod Follows
pub mod DepthViews
pub mod Chains
