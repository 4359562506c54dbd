pub mod Tree
pub mod Reading
pub mod Refusals
pub mod Repeats
pub mod ProjectionRules
