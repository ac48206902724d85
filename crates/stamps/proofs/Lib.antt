pub mod CivilLemmas
pub mod TextLemmas
pub mod ClockLemmas
pub mod PosixLemmas
pub mod MomentLemmas
