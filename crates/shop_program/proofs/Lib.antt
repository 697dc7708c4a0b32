pub mod CommandLemmas
pub mod SeedLemmas
