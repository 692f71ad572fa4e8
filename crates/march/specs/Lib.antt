-- The root of the definitions of `march`.
pub mod Answers
pub mod Groups
pub mod GroupsLaws
pub mod Given
pub mod Checks
pub mod March
pub mod MarchBounds
pub mod Take
pub mod TakeBounds
pub mod Exact
pub mod Demand1
pub mod Demand3
pub mod Lists
pub mod Panel
