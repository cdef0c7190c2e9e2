pub mod Limits
pub mod Fractions
pub mod Badness
pub mod Decimals
pub mod Units
pub mod Glue
pub mod GlueFields
