mod Dialogues
pub mod Views
