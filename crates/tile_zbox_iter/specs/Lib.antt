pub mod Cursor
pub mod Tiles
pub mod Theorems
pub mod RustNext
