pub mod Promises
pub mod Trust
