-- The laws of the map.
pub mod EverySet
pub mod Searches
pub mod TryBytes
