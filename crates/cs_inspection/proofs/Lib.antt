pub mod OneState
pub mod Sound
pub mod Unreadable
pub mod Merges
pub mod Listing
