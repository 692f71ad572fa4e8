-- The definitions that the contracts of `deck` cite. Assumes nothing.
pub mod Number
pub mod Cards
pub mod Deck
pub mod Checks
pub mod Walk
pub mod Reading
