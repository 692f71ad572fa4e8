-- The laws of `forcing`, which its proofs and those of the crates above cite.
pub mod SineTable
pub mod QuadrantLaws
pub mod StressLaws
pub mod ForceLaws
pub mod LimitLaws
pub mod Cases
