-- `Theorems` has what the grammar says of lines; `OnceLemmas`, `Keys`, `Pairs`, `Parse` and `ReadingLemmas` have what it and the functions
-- stand on.
pub mod Keys
pub mod OnceLemmas
pub mod Pairs
pub mod Parse
pub mod ReadingLemmas
pub mod Theorems
