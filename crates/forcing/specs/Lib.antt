-- The root of the definitions of `forcing`: sines, the wind stress coefficient, wind stress and the force on a segment, from document 01's "Sine, stress,
-- force", and what limits its flux, from document 02's Q-6.
pub mod Sine
pub mod Quadrant
pub mod Coefficient
pub mod Stress
pub mod Force
pub mod Limit
