pub mod Lists
pub mod Reaches
mod Worked
