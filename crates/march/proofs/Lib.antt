-- The laws that the proofs of `march` and of the crates above cite.
pub mod Cases
pub mod ChecksPassed
pub mod MarchFits
pub mod MarchLaws
pub mod MarchSteps
pub mod TakeLaws
pub mod Demand1
pub mod Demand3
pub mod Lists
pub mod Refused
pub mod Panel
