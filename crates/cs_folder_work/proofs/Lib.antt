mod ChangingLemmas
mod FolderLemmas
mod KeepingLemmas
mod SyncLemmas
