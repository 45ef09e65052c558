pub mod Nodes
pub mod Tables
pub mod Texts
pub mod Kept
