pub mod Page
pub mod Dvi
pub mod Meaning
