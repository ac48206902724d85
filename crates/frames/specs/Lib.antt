pub mod Frames
pub mod Lengths
pub mod Laws
