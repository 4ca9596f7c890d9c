pub mod InTurn
pub mod Build
pub mod Account
pub mod Refusals
pub mod Demand3
