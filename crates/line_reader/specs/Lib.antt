pub mod Held
pub mod Reading
pub mod Lines
pub mod Lists
pub mod Read
