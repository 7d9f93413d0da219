-- The numbers of the causes.
pub mod Numbers
