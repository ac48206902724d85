pub mod Images
pub mod Commits
pub mod Fronts
pub mod Files
pub mod Appends
pub mod Losing
mod Behind
pub mod Creations
pub mod Windows
pub mod Headers
pub mod Unique
pub mod Walks
pub mod OneHeader
pub mod Shut
pub mod Wholes
