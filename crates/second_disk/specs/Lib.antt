pub mod Causes
pub mod Lasting
pub mod Level
pub mod Opened
