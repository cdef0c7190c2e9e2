pub mod Assigns
pub mod Carrying
pub mod MainLoop
