pub mod Id
pub mod Rmid
pub mod Powers
pub mod IdBits
pub mod Levels
pub mod Entry
pub mod Rust
