-- `PlacesLemmas` has how many places the overlays ask for, and what they leave in them.
pub mod PlacesLemmas
