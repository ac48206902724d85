pub mod Encoding
pub mod Link
pub mod Reading
