mod FilesOf
pub mod Restored
pub mod Changing
mod Copied
