pub mod Fitting
pub mod Searching
pub mod Places
pub mod Parts
pub mod Worked
