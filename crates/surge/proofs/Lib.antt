-- The laws that the proofs of `surge` share. Assumes nothing.
pub mod Begun
pub mod TurnEnds
pub mod Turns
pub mod TurnsEnd
pub mod Listing
