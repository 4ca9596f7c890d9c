pub mod Stream
pub mod Long
pub mod Scan
pub mod Scanned
pub mod Steps
pub mod Theorems
