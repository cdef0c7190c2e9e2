pub mod Told
pub mod CutShort
mod FilesOf
mod Along
