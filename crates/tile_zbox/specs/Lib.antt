pub mod Box
pub mod Laws
pub mod Theorems
pub mod Rust
