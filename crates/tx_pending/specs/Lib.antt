pub mod Elements
pub mod Plain
pub mod Tails
pub mod Steps
pub mod Sources
