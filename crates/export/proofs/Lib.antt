pub mod Texts
pub mod ReadLines
pub mod Plain
pub mod ObjectLemmas
pub mod ListLemmas
pub mod OneLine
pub mod Keys
pub mod Apart
