-- The laws that the proofs of `lent` and of the crates above cite.
pub mod CallLaws
pub mod MakingLaws
pub mod ProfileLaws
pub mod Again
pub mod DeckLaws
