pub mod Fault
pub mod FileSet
pub mod Load
pub mod LoadReadable
pub mod Memory
pub mod Plan
pub mod Save
