pub mod Signs
pub mod Definitions
pub mod Absorbed
