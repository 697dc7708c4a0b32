pub mod Digits
pub mod Levels
pub mod Marks
pub mod Near
pub mod Order
pub mod Queues
pub mod Slots
