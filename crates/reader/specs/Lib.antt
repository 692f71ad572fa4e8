-- The root of the definitions of `reader`. Assumes nothing.
pub mod Text
pub mod Lines
pub mod Storm
pub mod Traverse
pub mod Window
pub mod Lent
