pub mod CommandLine
pub mod Told
pub mod Values
pub mod Words
