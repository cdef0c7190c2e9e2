mod Made
pub mod Fronts
mod Worked
mod WorkedAccents
mod Opened
mod Spaced
mod Divided
mod Leanings
