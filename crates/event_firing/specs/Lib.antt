pub mod Reactions
pub mod Settling
