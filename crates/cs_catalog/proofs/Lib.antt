pub mod Reading
pub mod TextLists
pub mod SortedTexts
pub mod Repeats
pub mod CutLemmas
pub mod Mapped
pub mod Passing
mod TextOrder
