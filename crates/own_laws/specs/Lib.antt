pub mod Numbers
pub mod OneToken
