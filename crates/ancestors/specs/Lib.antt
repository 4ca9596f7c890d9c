pub mod Tops
pub mod Laws
pub mod Walk
pub mod Simplify
