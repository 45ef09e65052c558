pub mod Digits
pub mod WordBytes
pub mod AddingLemmas
pub mod KeywordLaws
pub mod CommandLaws
pub mod ScriptLaws
