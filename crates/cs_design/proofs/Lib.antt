pub mod TailLists
pub mod SmallerLosses
pub mod Items
pub mod Unions
pub mod Tails
pub mod Searched
