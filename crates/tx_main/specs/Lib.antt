pub mod Effects
pub mod Turns
pub mod MainLoop
pub mod Lawful
