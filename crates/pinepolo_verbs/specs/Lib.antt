pub mod Changed
pub mod Found
pub mod Performs
pub mod Promises
pub mod Showing
pub mod TablePromises
pub mod World
