pub mod Lists
pub mod Replaced
