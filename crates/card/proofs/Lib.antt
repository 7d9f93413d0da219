-- The laws of the card that those above cite.
pub mod All
pub mod Overlays
pub mod Runs
pub mod Peaks
pub mod Torn
pub mod MarkLaws
pub mod Spreads
pub mod ByMark
pub mod Mixtures
pub mod Cuts
pub mod Leaves
