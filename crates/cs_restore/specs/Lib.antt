pub mod Undoing
pub mod Placing
pub mod Restoring
pub mod Refusals
