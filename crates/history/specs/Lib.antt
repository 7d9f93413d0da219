-- Histories: the plain disk, lists of calls, and what is promised of them.
pub mod Call
pub mod Plain
pub mod Dispatch
pub mod Ledger
pub mod History
pub mod Statements
pub mod Cuts
pub mod Formats
pub mod Scripts
pub mod Refusals
pub mod Costs
pub mod GetLists
pub mod Directs
pub mod AlikeCards
pub mod Linked
pub mod Worked
