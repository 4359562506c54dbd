pub mod Folders
pub mod Siting
