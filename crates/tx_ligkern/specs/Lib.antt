pub mod Pieces
pub mod Composing
pub mod Steps
pub mod Composed
pub mod Pairs
pub mod Seams
