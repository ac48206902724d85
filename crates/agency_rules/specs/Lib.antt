pub mod Plans
pub mod Judging
pub mod Clashes
pub mod Pairs
pub mod Indexes
pub mod Laws
