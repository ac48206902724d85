pub mod Bytewise
pub mod RunEnding
pub mod DrainAnswers
