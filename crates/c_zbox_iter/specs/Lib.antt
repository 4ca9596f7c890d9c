pub mod Step
