pub mod Settling
pub mod Told
pub mod Stages
mod Worked
pub mod Alone
