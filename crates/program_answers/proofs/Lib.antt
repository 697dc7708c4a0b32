pub mod EndingLemmas
pub mod InputLemmas
pub mod ProcessLemmas
pub mod TopLemmas
