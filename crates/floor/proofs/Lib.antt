-- `Theorems` proves what specs/Floor.antt claims; `Entries`, `Answer` and `Cuts` have what it stands on.
pub mod Answer
pub mod Cuts
pub mod Entries
pub mod Theorems
