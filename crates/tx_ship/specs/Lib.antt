pub mod Standing
pub mod Characters
pub mod Commands
pub mod Written
pub mod Within
pub mod Placing
pub mod Registers
pub mod Pages
