pub mod Parts
pub mod Forms
pub mod Repeats
pub mod Literals
pub mod Scans
pub mod Digits
pub mod Counts
pub mod Names
pub mod Words
pub mod Changes
pub mod Commands
mod Batches
mod Scripts
