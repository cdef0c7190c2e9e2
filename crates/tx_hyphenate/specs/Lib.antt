pub mod Letters
pub mod Kinds
pub mod Finding
pub mod Lacking
pub mod Hyphenated
pub mod Texts
