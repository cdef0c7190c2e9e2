pub mod Rules
pub mod Partial
pub mod Files
pub mod ReadBack
pub mod Grammar
