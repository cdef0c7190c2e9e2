pub mod Preambles
pub mod Entries
pub mod Ends
