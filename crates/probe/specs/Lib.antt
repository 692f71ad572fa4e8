-- The root of the definitions of `probe`. Assumes nothing.
pub mod Ends
