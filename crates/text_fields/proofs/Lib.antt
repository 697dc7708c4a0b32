pub mod ByteKeys
pub mod Choices
pub mod Each
pub mod Keys
pub mod Places
pub mod Trees
pub mod Found
pub mod Known
