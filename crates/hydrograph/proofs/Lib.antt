-- The laws that the proofs of `hydrograph` and of the crates above cite.
pub mod TurnLaws
pub mod RecordRead
pub mod Tells
pub mod Driven
pub mod ReferenceRuns
