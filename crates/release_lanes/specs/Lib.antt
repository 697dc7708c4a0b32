pub mod Lanes
pub mod Laws
pub mod Plain
pub mod RingLaws
pub mod Rings
pub mod Woven
