pub mod Between
pub mod Bounds
pub mod First
pub mod Lists
pub mod Chosen
pub mod Loops
pub mod Telling
mod Worked
mod WorkedSigns
