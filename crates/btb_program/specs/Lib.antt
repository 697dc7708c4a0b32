pub mod Answer
pub mod Numbers
pub mod SavedRuns
