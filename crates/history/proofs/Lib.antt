-- The proofs of the statements about histories.
pub mod Relation
pub mod Steps
pub mod Atomicity
pub mod Boundary
pub mod Twins
pub mod Worked
pub mod Theorems
