-- `Theorems` has the theorems of tile numbers, `EntryLemmas` the laws of list entries.
pub mod EntryLemmas
pub mod Theorems
