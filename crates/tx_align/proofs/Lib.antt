pub mod Opened
pub mod Grouped
pub mod Lists
pub mod Behind
pub mod Fits
pub mod Reading
pub mod Extents
mod Worked
