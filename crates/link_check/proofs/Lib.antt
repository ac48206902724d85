mod Lasts
mod Lines
mod Looking
mod Reading
