pub mod State
pub mod Outcomes
pub mod Ended
pub mod Groups
pub mod Standing
pub mod Texts
pub mod Meanings
pub mod Codes
