-- `Grounds` and `Settled` have what is proved of grounds and of settled lists, `Doors` that the boundary does what is promised, from `Passed`;
-- `Theorems` has how many places a difference can need.
pub mod Doors
pub mod Grounds
pub mod Passed
pub mod Settled
pub mod Theorems
