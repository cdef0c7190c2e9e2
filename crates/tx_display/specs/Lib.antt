pub mod Errors
pub mod Sizes
pub mod Edges
pub mod Reaching
pub mod Fitting
pub mod Arranging
pub mod Appending
pub mod Displays
