-- The script: lines, the commands that they say, and the lines that answer them.
pub mod Fields
pub mod Words
pub mod Numbers
pub mod Commands
pub mod Answers
pub mod Replies
pub mod Transcript
pub mod Steps
pub mod CodeSession
pub mod Cases
