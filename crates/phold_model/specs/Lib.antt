pub mod Meaning
pub mod ModelLaws
pub mod Parts
pub mod Starts
pub mod Views
