pub mod Kinds
pub mod Steps
pub mod Noting
pub mod Contradictions
pub mod Session
pub mod Sessions
