pub mod Common
pub mod Walk
