pub mod Tallies
pub mod Counts
pub mod Ends
pub mod Turns
pub mod Workers
pub mod Works
