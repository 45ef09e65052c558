pub mod Pieces
pub mod Spelling
pub mod Given
pub mod Keywords
pub mod Reading
pub mod Scripts
pub mod Adding
