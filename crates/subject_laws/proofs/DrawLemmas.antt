-- What objects draw.
pub mod DrawsLaw
pub mod SmallDraws
