mod Calls
mod Keeping
mod Asking
pub mod Sent
pub mod Telling
pub mod Places
pub mod Serving
mod Adding
mod Seating
mod Looking
mod Learning
mod Seeing
mod Noting
mod Turning
