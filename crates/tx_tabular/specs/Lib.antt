pub mod Alignments
pub mod Lists
pub mod Entries
pub mod Rows
pub mod Ending
