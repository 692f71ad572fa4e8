-- The laws of `hurricane`, which its proofs and those of the crates above cite.
pub mod FactorTable
pub mod FieldLaws
pub mod MakeLaws
pub mod ProfileLaws
pub mod Cases
