-- The root of the definitions of `lent`.
pub mod Numbers
pub mod Calls
pub mod Texts
pub mod Making
pub mod Profiles
pub mod Again
pub mod Decks
