pub mod Numbers
pub mod Rows
pub mod ClearFaults
pub mod Reading
