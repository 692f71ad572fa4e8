-- The root of the definitions of `surge_c`.
pub mod Rows
pub mod Calls
pub mod Again
pub mod Demand3
pub mod Panel
