pub mod Map
pub mod Along
pub mod Walks
pub mod Over
pub mod Values
pub mod Changes
pub mod Slots
pub mod Fan
pub mod Levels
pub mod Numbers
pub mod Rising
pub mod Stored
pub mod References
pub mod WorkedRows
mod WorkedVisits
pub mod Removals
pub mod Settings
