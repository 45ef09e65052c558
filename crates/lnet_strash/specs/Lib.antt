pub mod Keys
pub mod Standing
pub mod Chains
pub mod Found
