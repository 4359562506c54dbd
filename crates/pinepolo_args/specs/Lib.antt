pub mod Exits
pub mod Meanings
pub mod NewFolders
pub mod Paths
