pub mod Integers
pub mod Dimensions
pub mod Glues
pub mod Tokens
pub mod Modes
pub mod Table
pub mod Expandables
