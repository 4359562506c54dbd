pub mod FileSetLemmas
mod LoadLemmas
mod MemoryLemmas
mod PlanLemmas
mod ReadableLemmas
mod SaveLemmas
