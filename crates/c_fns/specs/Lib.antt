pub mod Ancestor
pub mod Limits
