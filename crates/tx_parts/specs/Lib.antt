pub mod Texts
pub mod KeptTokens
