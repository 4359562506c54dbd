mod OtherSites
pub mod TrustedLoads
