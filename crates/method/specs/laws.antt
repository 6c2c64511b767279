-- What follows from the words: proved, so that nothing here has to be believed. It says in other terms what a reader may want to know of the words,
-- of every session: that no shift is left out or late, who called for each, that ticks are free, and that no interest bound is too narrow.
pub mod Parted
pub mod Seen
pub mod Stages
pub mod Rule2
pub mod Rule3
pub mod Ticks
pub mod Outer
