mod Leaning
mod Means
mod Choosing
mod Filing
