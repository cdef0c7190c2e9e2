pub mod Equal
pub mod Measures
pub mod Lists
mod Worked
