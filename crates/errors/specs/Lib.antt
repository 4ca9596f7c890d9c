pub mod Answer
pub mod Gives
pub mod Cases
pub mod Laws
pub mod Turn
pub mod Memory
