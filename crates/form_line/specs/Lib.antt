pub mod Decimal
pub mod Line
pub mod Few
pub mod Stores
pub mod Text
pub mod Answered
pub mod Longest
