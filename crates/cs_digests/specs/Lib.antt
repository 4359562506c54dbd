pub mod Lanes
pub mod Keys
pub mod Growing
