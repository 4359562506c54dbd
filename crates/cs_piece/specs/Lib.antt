pub mod Columns
pub mod Pieces
