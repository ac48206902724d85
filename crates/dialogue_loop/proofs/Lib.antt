mod Lists
mod InARow
mod Bytewise
pub mod OneRun
mod Looking
mod Dialogues
mod Readings
