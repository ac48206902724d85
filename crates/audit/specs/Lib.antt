pub mod Auditing
pub mod Laws
