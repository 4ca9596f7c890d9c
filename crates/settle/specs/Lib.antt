pub mod Middle
pub mod Settle
pub mod Siblings
pub mod Stack
pub mod Simplify
