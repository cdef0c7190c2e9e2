pub mod Errors
pub mod Places
pub mod Seen
pub mod Readings
pub mod Magnified
