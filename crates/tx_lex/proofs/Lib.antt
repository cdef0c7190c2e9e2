pub mod CharacterLaws
mod LineLaws
mod Loops
mod Readings
mod RuleLaws
mod Words
