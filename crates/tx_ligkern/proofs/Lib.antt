mod Inserted
mod Rewritten
mod Runs
mod Steps
pub mod Once
pub mod Within
pub mod Fronts
mod Seaming
