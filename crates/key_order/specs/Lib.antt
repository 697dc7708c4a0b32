pub mod Ascending
pub mod Due
pub mod Joined
pub mod Keys
pub mod Pending
pub mod Serials
pub mod Stamps
