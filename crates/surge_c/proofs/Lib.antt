-- The laws that the proofs of `surge_c` cite.
pub mod RowLaws
pub mod NumberLaws
pub mod Again
pub mod Demand3
pub mod Panel
