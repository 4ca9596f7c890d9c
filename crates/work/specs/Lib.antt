pub mod Work
pub mod Steps
pub mod Told
pub mod One
pub mod Pairs
pub mod Overlaid
