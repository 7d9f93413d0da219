-- The laws of lines.
pub mod Pieces
pub mod Texts
pub mod Transcripts
pub mod Replies
pub mod Sessions
pub mod Cases
