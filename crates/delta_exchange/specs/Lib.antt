pub mod Changes
pub mod KeptWords
pub mod Spares
pub mod Undoing
pub mod Views
