pub mod Fns
pub mod Laws
pub mod Parent
pub mod Rust
pub mod Steps
