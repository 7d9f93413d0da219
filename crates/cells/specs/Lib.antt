-- Flat bytes seen as cells of one size; little-endian numbers, and rows of them; entries; a part of a lent slice; equal bytes.
pub mod Cell
pub mod Little
pub mod Row
pub mod Upto
pub mod Entry
pub mod Part
pub mod Same
