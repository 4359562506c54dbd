mod Ends
pub mod Unreadable
