pub mod Taking
pub mod Threads
pub mod Linking
pub mod Auditing
