pub mod Statements
pub mod Numbering
pub mod Texts
pub mod Listing
pub mod Reading
pub mod Meanings
