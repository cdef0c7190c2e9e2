pub mod ListEnds
pub mod Paragraphs
pub mod GroupEnds
