pub mod Letters
pub mod Hyphens
pub mod Words
pub mod Accents
pub mod Fonts
pub mod Texts
