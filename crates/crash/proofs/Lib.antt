-- What power loss leaves of the journal on a card.
pub mod Logs
pub mod Cards
pub mod Frames
pub mod Batches
pub mod Plans
pub mod Appends
pub mod Leads
pub mod Waiting
pub mod CallCuts
