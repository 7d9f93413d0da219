-- Reading a card by its settled bytes alone: tally and alike.
pub mod Reading
pub mod Tally
pub mod Alike
pub mod CodeReading
