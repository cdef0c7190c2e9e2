mod Places
mod Together
mod Held
