-- The root of the definitions of `hydrograph`: the listing as a function of the two files' bytes, and the turns that print it.
pub mod Listing
pub mod Turns
