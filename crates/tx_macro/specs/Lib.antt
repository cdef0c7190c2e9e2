pub mod Tokens
pub mod Agreement
pub mod Arguments
pub mod Matching
pub mod Stages
pub mod Rests
pub mod Matchers
pub mod Standing
