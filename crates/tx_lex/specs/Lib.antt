pub mod Line
pub mod Notation
pub mod Characters
pub mod Reading
pub mod Plain
pub mod Steps
pub mod Rules
