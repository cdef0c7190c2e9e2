pub mod Rows
pub mod Resume
pub mod Locate
pub mod Meant
pub mod Laws
