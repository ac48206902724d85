pub mod Pasts
pub mod Judgements
pub mod Tables
pub mod Deliveries
pub mod Indexing
pub mod Comings
