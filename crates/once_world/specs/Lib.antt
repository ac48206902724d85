pub mod Agreement
pub mod Looks
pub mod World
pub mod Laws
pub mod Outbox
