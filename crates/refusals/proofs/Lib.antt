-- The laws of the causes' numbers that the crates above cite.
pub mod Nonzero
