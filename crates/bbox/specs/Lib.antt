pub mod Box
pub mod Laws
pub mod Order
pub mod Rust
