-- The definitions that the contracts of `listing` cite, and the measure of a decimal number. Assumes nothing.
pub mod Decimal
pub mod Meaning
pub mod Lines
pub mod Put
