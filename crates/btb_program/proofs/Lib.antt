pub mod CommandLemmas
pub mod SmallAnswers
