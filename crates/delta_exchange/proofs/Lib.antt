pub mod Backwards
pub mod Forwards
pub mod Inverses
pub mod LineLemmas
pub mod Lists
pub mod Room
pub mod Undoing
