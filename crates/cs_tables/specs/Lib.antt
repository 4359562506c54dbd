pub mod Repeats
pub mod Loading
pub mod Dumping
pub mod ByName
pub mod Cutting
pub mod Differences
pub mod Relayout
pub mod RelayoutLaws
