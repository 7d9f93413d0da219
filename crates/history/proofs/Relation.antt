-- The relation of the store, its ledger and the plain disk, by mode.
pub mod Lists
pub mod WorkLists
pub mod CauseLaws
pub mod Forms
pub mod EvenLedgers
pub mod Sim
pub mod PlainLaws
pub mod OpenFacts
pub mod PlainAnswers
