pub mod Ended
pub mod Pieces
pub mod LineLists
pub mod Setting
pub mod Paragraphs
pub mod Tasks
pub mod Adding
