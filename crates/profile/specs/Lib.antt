-- The root of the definitions of `profile`: the text of a customer's own pressure profile, document 02's Q-7.
pub mod Entries
pub mod Load
