pub mod Arriving
pub mod Catching
pub mod Chains
pub mod Following
pub mod Pairs
pub mod Pieces
pub mod Starting
