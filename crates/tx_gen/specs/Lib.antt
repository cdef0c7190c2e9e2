pub mod Draws
pub mod Book
pub mod Font
pub mod Edits
pub mod Made
