mod Comment
pub mod Pages
mod Worked
pub mod Reading
pub mod SignedBack
