mod Appended
pub mod CaughtUp
mod Chained
mod Followed
pub mod Fronts
mod Pairing
mod Receiving
mod Sights
mod Splitting
mod Starting
