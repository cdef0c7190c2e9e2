pub mod Errors
pub mod State
pub mod Codes
pub mod Turns
pub mod Lawful
