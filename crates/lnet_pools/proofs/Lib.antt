pub mod Order
pub mod Lists
pub mod Pooled
mod Walking
mod Shown
pub mod Changes
