-- Where each job of a network is.
pub mod Balance
pub mod BirthsLaw
pub mod JobsLaw
pub mod Keeping
pub mod Moving
pub mod NamesLaw
pub mod Permuted
pub mod PlacesLaw
pub mod SamePlace
pub mod SmallCrowd
pub mod Weights
