-- The laws of the checksum, which callers cite; the rule of its table, and the arithmetic of its product.
pub mod Laws
mod Table
mod Parts
