pub mod DriveFacts
pub mod LoneStation
