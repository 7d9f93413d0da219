-- Two cards that are alike: recovered, they are in the relation with one plain disk, but for the number of groups laid into it.
pub mod Regrouped
pub mod Reopens
pub mod LastNumber
pub mod Homes
pub mod Pairs
pub mod Shows
pub mod Recovered
pub mod AlikeCards
