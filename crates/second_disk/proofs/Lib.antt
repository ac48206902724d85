mod Blames
mod Brought
mod Halves
mod Left
mod Levelled
mod Mirrored
mod Ups
