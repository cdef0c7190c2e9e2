pub mod Sums
pub mod Stretching
pub mod Verdicts
pub mod Packing
pub mod Tops
