pub mod Outputs
pub mod Last
pub mod Marks
pub mod Pages
