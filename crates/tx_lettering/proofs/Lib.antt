pub mod Defining
pub mod Loads
pub mod Collects
pub mod Signs
pub mod Learning
pub mod Accenting
