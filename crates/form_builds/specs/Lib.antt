pub mod Calls
pub mod Sets
pub mod Line
pub mod Printed
