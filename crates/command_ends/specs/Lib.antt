pub mod Printed
pub mod Ending
pub mod DrainEnds
pub mod Scripts
pub mod Played
