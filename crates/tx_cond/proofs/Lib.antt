pub mod Comparands
pub mod FromInside
pub mod Decided
pub mod Skipped
pub mod Lefts
pub mod Givens
pub mod Registers
