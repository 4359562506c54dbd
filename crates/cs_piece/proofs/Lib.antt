pub mod Variants
pub mod ShortTexts
pub mod ColumnParts
pub mod PieceLemmas
