pub mod NameLists
pub mod WireLaws
