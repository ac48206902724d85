mod Entries
mod Moves
mod Losing
mod OneCauses
