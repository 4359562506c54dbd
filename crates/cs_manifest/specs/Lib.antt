pub mod Ahead
pub mod Comparisons
pub mod Digests
pub mod Lines
pub mod Reading
pub mod RoundTrip
