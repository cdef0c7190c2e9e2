mod ListSteps
mod Places
mod StackSteps
pub mod Filling
