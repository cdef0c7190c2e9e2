pub mod Worked
pub mod Parting
pub mod Runs
pub mod Placing
pub mod Wording
