pub mod Occupancies
pub mod Sums
pub mod Totals
pub mod Words
