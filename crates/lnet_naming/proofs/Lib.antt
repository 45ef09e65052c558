pub mod NameFacts
pub mod Steps
