pub mod Join
pub mod Laws
pub mod Members
pub mod Sets
pub mod Pass
pub mod Once
pub mod Turns
