mod AloneFile
mod ChangedNames
mod Mapped
mod NoneFailed
