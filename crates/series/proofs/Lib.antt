pub mod PaddingLemmas
pub mod NumberLemmas
pub mod NumLemmas
