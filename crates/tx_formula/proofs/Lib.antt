pub mod Refused
pub mod Showing
