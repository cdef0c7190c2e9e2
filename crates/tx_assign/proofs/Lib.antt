pub mod Steps
pub mod Numbers
pub mod Givens
pub mod Parts
mod Sums
mod Operands
