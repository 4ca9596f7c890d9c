pub mod Area
pub mod Pairs
pub mod Left
