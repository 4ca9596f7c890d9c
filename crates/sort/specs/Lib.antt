pub mod Sort
pub mod Compared
pub mod Sorted
pub mod EachOnce
pub mod Rising
pub mod Pass
pub mod Theorems
pub mod At
