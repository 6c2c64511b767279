-- To be believed: what a table and an event are, what a session answers and becomes, and what rules 1 to 3 demand. Read in this order, beside
-- docs/METHOD.md, whose chapters and items the comments cite. No test that refuses stands here, no search for due holds, no function that computes
-- the state after an event or a shift, and no proof.
pub mod Types
pub mod Wire
pub mod Layout
pub mod Ranges
pub mod Growth
pub mod Bounds
pub mod Opening
pub mod Tables
pub mod Events
pub mod Pressure
pub mod Holds
pub mod Books
pub mod Shifts
pub mod Sessions
pub mod Margins
pub mod Rules
