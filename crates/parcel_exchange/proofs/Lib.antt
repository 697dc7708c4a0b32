pub mod Arrivals
pub mod Fetching
pub mod Gathering
