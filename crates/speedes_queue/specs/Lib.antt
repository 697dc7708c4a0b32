pub mod Fresh
pub mod Heads
pub mod Levels
pub mod Pairs
pub mod Queues
pub mod Serials
pub mod Slots
