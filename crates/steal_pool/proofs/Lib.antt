mod RuleLemmas
mod DoesLemmas
mod EachLemmas
mod PlaceLemmas
mod WorkerLemmas
mod DealLemmas
mod OrderLemmas
mod GatherLemmas
mod TogetherLemmas
mod RunLemmas
pub mod HalfLemmas
