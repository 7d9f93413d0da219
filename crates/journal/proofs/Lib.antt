-- The laws of the journal that those above cite.
pub mod Headers
pub mod Logs
pub mod Lookups
pub mod Chains
pub mod Descriptors
pub mod OrderLists
pub mod Peaks
pub mod Choices
pub mod OurHeaders
pub mod Phases
pub mod Cases
