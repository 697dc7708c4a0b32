pub mod RingTexts
pub mod RingTotals
