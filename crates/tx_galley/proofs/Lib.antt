mod Told
mod Values
