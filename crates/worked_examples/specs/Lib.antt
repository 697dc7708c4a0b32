pub mod Notes
pub mod Ring
pub mod Shop
pub mod StrictStation
pub mod Summaries
pub mod Worlds
