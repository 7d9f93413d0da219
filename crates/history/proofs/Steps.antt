-- Every call keeps the relation, and so does every list of calls.
pub mod Shown
pub mod Local
pub mod Cut
pub mod CallEnds
pub mod Notes
pub mod Ends
pub mod Gives
pub mod Worlds
pub mod Checkpoints
pub mod Apply
pub mod Recover
pub mod AppendEnds
pub mod SyncMeets
pub mod Directs
pub mod Sync
pub mod ListInduction
