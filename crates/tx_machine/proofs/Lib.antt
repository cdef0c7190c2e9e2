pub mod Stretch
pub mod Going
mod Heeding
pub mod Passing
pub mod Joining
pub mod Running
pub mod PageCounts
