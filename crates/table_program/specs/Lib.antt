pub mod Families
pub mod TableAnswers
