pub mod Equal
pub mod Measures
pub mod Counting
pub mod Alone
pub mod Reaches
