pub mod Exchange
pub mod Inboxes
pub mod Mail
pub mod Team
