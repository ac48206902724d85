pub mod Causes
pub mod Given
pub mod Memory
pub mod Readings
pub mod Counting
pub mod Sinks
pub mod Sources
pub mod Reasons
