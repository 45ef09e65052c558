pub mod Stored
pub mod Agreeing
pub mod Candidates
pub mod CutViews
