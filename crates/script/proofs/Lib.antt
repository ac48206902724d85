pub mod Cutting
pub mod Digits
pub mod LineKeys
pub mod Named
pub mod Reading
pub mod Plans
pub mod Drafting
pub mod Gathering
pub mod Parties
pub mod Tabling
mod OneByOne
pub mod Numbering
