pub mod Mirror
pub mod Halves
pub mod Calls
pub mod Reads
pub mod Survivors
