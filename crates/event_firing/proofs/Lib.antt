pub mod ReactionLemmas
pub mod SendLemmas
