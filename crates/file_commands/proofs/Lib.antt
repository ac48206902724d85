pub mod Bytewise
pub mod Lasts
pub mod FileReads
mod Cutting
mod Splitting
mod Pieces
mod Generating
pub mod Exports
pub mod Places
