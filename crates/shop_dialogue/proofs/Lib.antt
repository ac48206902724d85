pub mod AllTills
mod Counting
