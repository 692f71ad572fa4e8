-- The root of the definitions of `surge`: how the program stands between two turns, what a turn does, what a run prints, and what a storm's methods
-- leave of what it was lent.
pub mod Standing
pub mod Printed
pub mod Storm
pub mod Listing
