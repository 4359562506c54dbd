pub mod Finding
pub mod Status
