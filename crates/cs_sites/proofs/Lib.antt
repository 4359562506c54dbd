mod EntryLemmas
mod ReadLemmas
mod SourceLemmas
mod SiteLemmas
