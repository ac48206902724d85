pub mod Devices
pub mod Crashes
pub mod Opening
pub mod Draining
pub mod Guarding
pub mod Outcomes
pub mod Started
