-- The totals of a station.
pub mod EndLaw
pub mod FlowLaw
pub mod SmallTotals
pub mod ToldTotals
pub mod TotalsLaw
