pub mod Answer
pub mod Answered
pub mod Endings
pub mod Process
