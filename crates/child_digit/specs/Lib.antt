pub mod Digit
pub mod Theorems
