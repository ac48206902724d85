pub mod InARow
pub mod OneRun
pub mod Looked
pub mod Speech
