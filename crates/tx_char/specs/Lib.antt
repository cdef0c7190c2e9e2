pub mod Character
pub mod Category
pub mod Letters
