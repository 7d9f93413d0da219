-- Document 01's two worked scripts, and those in which a block is torn.
pub mod Sums
pub mod Card
pub mod Plain
pub mod Sync
pub mod Blank
pub mod Formats
pub mod TornMarks
pub mod Second
pub mod Drawn
pub mod Both
