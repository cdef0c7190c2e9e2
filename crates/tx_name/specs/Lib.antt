pub mod Names
pub mod Buckets
