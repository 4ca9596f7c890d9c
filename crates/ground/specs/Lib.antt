pub mod Ground
pub mod Largest
pub mod Members
pub mod Floor
