pub mod Opening
pub mod Moving
pub mod Causes
