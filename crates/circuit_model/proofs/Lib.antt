pub mod HotLemmas
pub mod PinCounts
