-- The root of the laws of `deck`. Assumes nothing.
pub mod Sizes
pub mod Cases
pub mod NumberLaws
pub mod CardLaws
pub mod CheckLaws
pub mod WalkLaws
pub mod CallLaws
pub mod SpeltLaws
pub mod ReadingLaws
pub mod TextLaws
