-- The checksum, FNV-1a 64.
pub mod Fnv
