pub mod States
pub mod Made
pub mod Formats
pub mod Sessions
pub mod Merging
pub mod Effects
pub mod Calls
pub mod Steps
