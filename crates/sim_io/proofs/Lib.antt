pub mod AppendLemmas
pub mod GatheringLemmas
pub mod CycleTextLemmas
pub mod TextLemmas
pub mod TakenLemmas
pub mod TransferLemmas
pub mod NumberLemmas
pub mod WordLemmas
