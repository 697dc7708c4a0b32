pub mod Numbers
pub mod PlainLemmas
pub mod RingEnds
pub mod RingLemmas
pub mod Rows
pub mod Weaving
