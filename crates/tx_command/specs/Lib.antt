pub mod Standing
pub mod Commands
pub mod Rests
pub mod Begun
pub mod Taken
pub mod Naming
pub mod Buffer
