pub mod Parts
pub mod Wording
pub mod Splitting
pub mod Amounts
pub mod Steps
mod Worked
pub mod LoadSteps
