pub mod Naming
pub mod Paths
