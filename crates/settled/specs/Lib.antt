pub mod Settled
pub mod Answers
pub mod Order
pub mod Walk
pub mod EntryTests
pub mod ByLocations
