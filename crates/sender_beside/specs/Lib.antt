pub mod Days
pub mod Beside
pub mod Tills
pub mod Works
pub mod Behind
