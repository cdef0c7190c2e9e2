pub mod Pages
pub mod Beginning
pub mod Effects
pub mod Turns
pub mod MainLoop
pub mod Going
pub mod Lawful
