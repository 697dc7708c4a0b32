pub mod LevelLemmas
pub mod PlaceLemmas
pub mod RoomLemmas
pub mod StepLemmas
