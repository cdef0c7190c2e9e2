pub mod Lists
pub mod Shapes
pub mod Kept
pub mod Firsts
pub mod Between
pub mod Ends
pub mod Causes
mod Worked
