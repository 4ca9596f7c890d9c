pub mod Theorems
pub mod AsRust
pub mod Listing
pub mod Lists
pub mod Rust
pub mod Zooms
