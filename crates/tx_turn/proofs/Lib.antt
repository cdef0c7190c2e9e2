pub mod Taking
pub mod TextTurns
pub mod Closing
pub mod Turning
pub mod AtOnce
pub mod MainLoop
pub mod Characters
mod Commanding
mod Runs
