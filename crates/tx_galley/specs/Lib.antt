pub mod Errors
pub mod Params
pub mod Contributing
pub mod Firing
pub mod Exercising
pub mod Ending
pub mod Splitting
pub mod Assigning
