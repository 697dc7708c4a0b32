pub mod InTime
pub mod ComingLemmas
pub mod ToldLemmas
