mod Filled
mod Within
