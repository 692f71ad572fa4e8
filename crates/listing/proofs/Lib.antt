-- The laws that the proofs of `listing` share, what a decimal number means, and worked examples. Assumes nothing.
pub mod Decimal
pub mod Written
pub mod Signed
pub mod Answer
pub mod Lines
pub mod Meaning
pub mod Examples
