pub mod Along
pub mod Steps
pub mod Copies
pub mod Naturals
pub mod Lettered
mod Worked
