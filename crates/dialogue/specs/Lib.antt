pub mod Protocol
pub mod OneLine
pub mod Continuing
