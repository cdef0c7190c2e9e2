pub mod Outcomes
pub mod Ordinary
