pub mod Copies
pub mod Loads
pub mod Moves
pub mod Steps
