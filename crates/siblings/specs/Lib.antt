pub mod Laws
pub mod Rust
pub mod Siblings
pub mod Theorems
