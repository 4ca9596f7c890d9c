pub mod Floor
