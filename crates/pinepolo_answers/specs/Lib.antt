pub mod FileLines
pub mod Named
pub mod OnlyLoss
pub mod Spare
pub mod Statuses
