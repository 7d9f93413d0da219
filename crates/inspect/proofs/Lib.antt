-- The laws of reading a card that those above cite.
pub mod Readings
pub mod Sums
pub mod Corrections
pub mod Comparisons
