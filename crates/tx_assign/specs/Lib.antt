pub mod Beginnings
pub mod Targets
pub mod Assignments
pub mod Rests
pub mod Changes
