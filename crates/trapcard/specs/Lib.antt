-- The program: what a read and a write come to.
pub mod Turns
