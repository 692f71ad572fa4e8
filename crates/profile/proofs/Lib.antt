-- The laws of `profile`, which its proofs and those of the crates above cite.
pub mod EntryLaws
pub mod LoadLaws
pub mod Cases
