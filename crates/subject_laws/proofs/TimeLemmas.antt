-- The times of the jobs of a station: Little's law, and the work of servers.
pub mod SmallTimes
pub mod SourcesLaw
pub mod Ticks
pub mod TimesLaw
pub mod WaitsLaw
