pub mod Standing
pub mod Ahead
