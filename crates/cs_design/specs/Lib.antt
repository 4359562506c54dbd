pub mod Fatal
pub mod Order
pub mod Tails
