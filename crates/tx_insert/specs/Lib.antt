pub mod Kinds
pub mod Sums
pub mod Costs
pub mod Breaks
pub mod Splits
