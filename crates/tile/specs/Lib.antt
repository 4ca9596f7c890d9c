pub mod OnMap
pub mod Order
pub mod Rust
pub mod Steps
pub mod Cursor
