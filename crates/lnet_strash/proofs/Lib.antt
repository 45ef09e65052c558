pub mod Links
pub mod Cuts
pub mod Walks
pub mod Tables
pub mod Lengthening
pub mod Rebuilding
pub mod Entries
pub mod EntryChanges
