pub mod LoadLemmas
pub mod PreparingLemmas
pub mod StepLemmas
