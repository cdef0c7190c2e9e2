pub mod Bodies
pub mod Macros
