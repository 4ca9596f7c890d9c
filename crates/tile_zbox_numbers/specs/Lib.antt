pub mod Boxes
pub mod Fives
pub mod Accepted
pub mod Lengths
pub mod Arrays
pub mod Theorems
pub mod Rust
