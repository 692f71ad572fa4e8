-- The root of the definitions of `records`.
pub mod Refusals
pub mod CheckOrder
pub mod Places
pub mod Groups
pub mod GroupsLaws
pub mod Rows
pub mod Shapes
pub mod Limits
