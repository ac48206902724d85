mod Loads
mod Opens
mod Readies
mod Stores
pub mod Fronts
pub mod Losing
mod Taking
mod EachElement
mod Stepping
mod Finishing
mod Taken
mod Reading
