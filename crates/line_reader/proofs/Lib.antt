mod Cutting
mod Underway
mod ReadOn
mod OneList
