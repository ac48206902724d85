pub mod Objects
pub mod Lines
pub mod Building
pub mod Fields
pub mod Laws
