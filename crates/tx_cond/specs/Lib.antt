pub mod Skipping
pub mod Conditionals
pub mod Alike
pub mod Tests
pub mod ComparandRests
pub mod TestRests
