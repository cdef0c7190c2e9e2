mod Settings
pub mod Filled
mod Cutting
mod Keeping
mod Told
