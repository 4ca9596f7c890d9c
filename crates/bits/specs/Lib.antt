pub mod Bits
pub mod Checked
pub mod Powers
pub mod Tests
