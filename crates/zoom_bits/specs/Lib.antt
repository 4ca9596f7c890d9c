pub mod Bits
pub mod Bitwise
pub mod Sets
pub mod Passing
pub mod Listed
pub mod Masks
pub mod Rising
