pub mod Uses
pub mod RowTables
pub mod Pieces
