pub mod Day
pub mod Text
pub mod Clock
pub mod Stamp
