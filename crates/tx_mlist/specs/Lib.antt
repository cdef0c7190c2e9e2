pub mod Items
pub mod Codes
pub mod Counts
pub mod Noads
pub mod Falls
pub mod Building
pub mod Choices
