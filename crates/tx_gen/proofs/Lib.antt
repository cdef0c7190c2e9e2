pub mod Steps
pub mod Times
pub mod Letters
pub mod Lengths
pub mod Starts
pub mod Scripts
