-- The root of the laws of `reader`. Assumes nothing.
pub mod Digits
pub mod Laws
pub mod Names
pub mod TraverseLaws
pub mod WindowLaws
pub mod Ends
pub mod Steps
pub mod Windows
pub mod KeptLaws
pub mod LentLaws
pub mod TraverseLent
pub mod Examples
