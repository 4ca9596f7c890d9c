pub mod Neighbors
pub mod Squares
pub mod MapEdge
pub mod Memory
pub mod Rust
pub mod AsRust
pub mod Members
pub mod Theorems
