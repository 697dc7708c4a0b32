mod LoadLemmas
pub mod RingLemmas
mod TellingLemmas
