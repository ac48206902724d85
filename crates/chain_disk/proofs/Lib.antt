pub mod Replay
pub mod Images
pub mod RunLaws
