pub mod Boxes
pub mod Pages
pub mod Breaks
pub mod Shipped
