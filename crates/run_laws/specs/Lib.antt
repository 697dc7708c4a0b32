pub mod Reached
pub mod RunLaws
pub mod Sent
