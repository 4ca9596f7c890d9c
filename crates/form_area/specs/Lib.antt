pub mod Area
pub mod Calls
pub mod Entries
pub mod Areas
pub mod Promised
pub mod Lines
