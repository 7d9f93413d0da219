-- The card: settled bytes, a queue of waiting writes, the power count.
pub mod Disk
pub mod Marks
pub mod Card
pub mod Torn
pub mod Peak
pub mod CodeQueue
