mod Replaying
pub mod Reusing
mod Saying
mod Refusing
mod Showing
mod Locating
pub mod Standings
mod Coming
mod Living
mod Parts
pub mod Settled
