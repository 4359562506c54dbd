pub mod AllSaid
pub mod Stands
pub mod Behind
