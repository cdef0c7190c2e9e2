pub mod Lists
pub mod Worked
pub mod Bests
pub mod Counted
pub mod Legal
pub mod Quotients
pub mod Behind
