pub mod Carried
pub mod Exercised
