pub mod Numbers
pub mod Inline
