pub mod Doubts
pub mod Restores
pub mod Undoes
