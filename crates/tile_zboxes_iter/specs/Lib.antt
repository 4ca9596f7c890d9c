pub mod Cursor
pub mod Laws
pub mod Theorems
pub mod Rust
