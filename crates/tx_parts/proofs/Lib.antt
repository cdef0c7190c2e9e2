pub mod Texting
pub mod Ordinary
pub mod Keeping
