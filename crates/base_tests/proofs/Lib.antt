pub mod CountedLemmas
