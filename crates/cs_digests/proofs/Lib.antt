pub mod LaneLemmas
pub mod BlockLemmas
pub mod ChainLemmas
pub mod HashLemmas
pub mod TakenLemmas
