pub mod Relation
pub mod Rust
pub mod Theorems
