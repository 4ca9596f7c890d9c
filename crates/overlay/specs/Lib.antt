pub mod Overlay
pub mod Runs
pub mod Parts
pub mod Joined
pub mod Left
