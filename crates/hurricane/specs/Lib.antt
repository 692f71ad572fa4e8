-- The root of the definitions of `hurricane`: a storm record from a hurricane's few numbers, document 02's Q-1, and its Q-7, the customer's own pressure profile.
pub mod Groups
pub mod GroupsLaws
pub mod Limits
pub mod Factor
pub mod Field
pub mod Profile
pub mod Bounds
pub mod Checks
pub mod Make
