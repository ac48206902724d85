pub mod Lists
pub mod Keeps
pub mod Sums
mod Seen
