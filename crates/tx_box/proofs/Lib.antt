pub mod Lines
pub mod Ends
pub mod Boxing
mod Inserting
