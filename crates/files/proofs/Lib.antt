-- The laws that the proofs of `files` share, and what reading a traverse file comes to. Assumes nothing.
pub mod Asks
pub mod Ending
pub mod PointsRead
pub mod Reached
pub mod Walked
