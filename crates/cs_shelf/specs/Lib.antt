pub mod Faults
pub mod Memory
pub mod MemoryReads
pub mod MemoryRest
pub mod Shelf
