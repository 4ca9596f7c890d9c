pub mod List
pub mod Gives
pub mod Laws
pub mod Finish
