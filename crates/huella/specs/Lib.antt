pub mod Texts
pub mod Linked
pub mod Stated
