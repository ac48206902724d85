pub mod Since
pub mod Steps
pub mod Mirrors
