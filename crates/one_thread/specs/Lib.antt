pub mod Ends
pub mod Engines
pub mod Telling
pub mod Turns
