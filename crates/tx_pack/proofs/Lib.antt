pub mod Tests
pub mod Beside
pub mod Runs
