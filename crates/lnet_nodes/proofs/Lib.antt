pub mod Places
pub mod RowNumbers
pub mod GatesAt
