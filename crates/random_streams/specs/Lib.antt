pub mod Delays
pub mod Laws
pub mod Rows
pub mod Shares
pub mod Words
