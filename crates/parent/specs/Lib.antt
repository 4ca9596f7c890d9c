pub mod Laws
pub mod Parents
pub mod Rust
pub mod Theorems
