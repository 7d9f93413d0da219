-- The journal: layout, header, log, the orders that write it, the choice of recovery.
pub mod Geometry
pub mod Layout
pub mod Header
pub mod Log
pub mod Orders
pub mod Lookup
pub mod Wanted
pub mod CodeWanted
pub mod Choice
pub mod Ours
pub mod Cases
