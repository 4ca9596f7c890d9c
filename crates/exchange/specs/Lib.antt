pub mod Parts
pub mod Laws
pub mod Partition
pub mod Halves
pub mod Merge
