pub mod Beginning
pub mod Shapes
pub mod Parameters
pub mod Hyphens
pub mod Ending
pub mod Interrupting
