pub mod BadFiles
pub mod Held
pub mod Laws
