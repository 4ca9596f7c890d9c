pub mod Form
pub mod Front
pub mod Words
pub mod Once
pub mod Ends
pub mod Tried
pub mod Reading
pub mod Steps
