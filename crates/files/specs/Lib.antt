-- The root of the definitions of `files`: what a refilled window holds, how one step or turn follows another, and what reading a traverse file answers.
pub mod Chain
pub mod Filled
pub mod TraverseFile
