pub mod Dots
pub mod Used
