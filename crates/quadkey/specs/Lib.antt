pub mod Key
pub mod Bytes
pub mod Refusals
pub mod Spelling
pub mod Flip
pub mod Bing
pub mod Rust
pub mod Theorems
