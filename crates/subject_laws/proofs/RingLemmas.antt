-- A demo runs to its end.
pub mod RingLaw
pub mod RingParts
pub mod RingSteps
pub mod SmallDemo
