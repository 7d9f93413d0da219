-- The log found on a card after a cut, the log that was written, and what groups laid over a disk make of it.
pub mod Found
pub mod Laid
