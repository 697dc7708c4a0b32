pub mod Numbers
pub mod ReplicateTexts
pub mod TableAnswers
