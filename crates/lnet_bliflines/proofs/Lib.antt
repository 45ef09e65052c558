pub mod WordLemmas
pub mod LineLengths
pub mod Steps
pub mod WordBytes
