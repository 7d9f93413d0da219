-- The laws of turns.
pub mod Turns
