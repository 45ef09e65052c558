pub mod Words
pub mod Best
pub mod Turns
pub mod Proposals
pub mod Columns
pub mod MajorityMeans
pub mod Classing
