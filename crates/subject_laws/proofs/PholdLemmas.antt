-- The population of PHOLD.
pub mod PopulationLaw
pub mod SmallRing
