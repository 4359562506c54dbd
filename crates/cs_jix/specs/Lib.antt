pub mod JoinIndex
pub mod Follow
pub mod Entries
