pub mod Outcomes
pub mod Searching
pub mod Fitting
pub mod Boxes
pub mod Stacking
pub mod Delimiters
