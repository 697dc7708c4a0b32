pub mod SavedRuns
mod WatchedLemmas
