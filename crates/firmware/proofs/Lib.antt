-- The laws of the record's bytes and of the calls as C sees them.
pub mod Records
pub mod Faces
