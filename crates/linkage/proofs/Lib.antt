-- The proof that calls through the functions for C are the store's.
pub mod Steps
pub mod Linkage
