pub mod Found
pub mod Expanding
