-- The map of power cuts: what it tries, and what its characters say.
pub mod Contents
pub mod Device
pub mod Sets
pub mod Tears
pub mod Tries
