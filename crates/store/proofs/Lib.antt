-- The laws of the store that those above cite.
pub mod Calls
pub mod Causes
pub mod Commits
pub mod Lookups
pub mod Places
pub mod Listings
pub mod Saves
pub mod Directs
pub mod Costs
