pub mod CausalityLaw
pub mod EnqueueSums
pub mod FlowLaw
pub mod Induction
pub mod OrderLaw
pub mod PrefixLaw
pub mod ReachedLemmas
pub mod Steps
