pub mod Gates
pub mod Statements
pub mod Wiring
pub mod Listing
pub mod Numbering
pub mod Texts
pub mod Reading
pub mod Meanings
