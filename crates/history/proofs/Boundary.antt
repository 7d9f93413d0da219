-- Refusals, the cut of any state, and the same calls through C and through the script.
pub mod Refusals
pub mod Cuts
pub mod AnyDirect
pub mod Costs
pub mod FaceRefusals
pub mod Formats
pub mod Guards
pub mod GetLists
pub mod Links
pub mod Scripts
