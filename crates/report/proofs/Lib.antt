pub mod Listed
mod Choosing
mod Totalled
mod Cents
mod Summed
