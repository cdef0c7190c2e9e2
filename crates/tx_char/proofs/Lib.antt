mod Tables
pub mod Words
