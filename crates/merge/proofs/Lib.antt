-- `Doors` has what the boundary does with one list.
pub mod Doors
