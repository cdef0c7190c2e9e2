mod Worked
pub mod PartSteps
pub mod Releasing
pub mod Turning
pub mod Joining
