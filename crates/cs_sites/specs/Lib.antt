pub mod Reading
pub mod Placing
pub mod Routing
pub mod Sited
pub mod Laws
