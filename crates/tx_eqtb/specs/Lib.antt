pub mod Boxes
pub mod Table
pub mod Seldom
pub mod Initex
pub mod Stack
pub mod Quantities
