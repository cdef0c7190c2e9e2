pub mod Shortest
pub mod GlueSums
