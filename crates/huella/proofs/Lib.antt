mod Fed
mod Capitals
mod Splitting
mod Values
mod Determined
