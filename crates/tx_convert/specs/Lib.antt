pub mod Texts
pub mod Numerals
pub mod Glues
pub mod Jobs
pub mod Fonts
pub mod Messages
pub mod Meanings
