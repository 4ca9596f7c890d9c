pub mod Around
pub mod Laws
pub mod Theorems
pub mod Rust
