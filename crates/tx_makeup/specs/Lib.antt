pub mod Shipping
pub mod Splitting
pub mod Markers
