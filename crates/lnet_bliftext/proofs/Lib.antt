pub mod WrittenNames
pub mod Lines
pub mod Commands
pub mod Rows
pub mod CoverForms
pub mod LineTexts
pub mod LineWords
pub mod Reading
