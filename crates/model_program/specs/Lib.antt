pub mod Answer
pub mod Handed
pub mod Machines
pub mod Plans
pub mod RunStandings
pub mod Saved
pub mod SavedRuns
pub mod Setting
