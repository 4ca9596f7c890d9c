-- `GivesLemmas` has what is proved of what a call gives.
pub mod GivesLemmas
