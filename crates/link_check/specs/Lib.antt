pub mod Checking
pub mod Texts
pub mod BeforeChain
pub mod Pieces
