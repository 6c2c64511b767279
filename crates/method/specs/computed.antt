-- What the code computes: opening step by step, an event, a shift, the search for due holds. Nothing here has to be believed: answers and states
-- are proved to be those that the words admit (Equal). Rooms, Sound and Later have what holds along every session, for the code and the proofs.
pub mod Equal
pub mod Types
pub mod Opening
pub mod Table
pub mod Head
pub mod Judge
pub mod Shift
pub mod Event
pub mod Relation
pub mod Search
pub mod Later
pub mod Rooms
pub mod Sound
pub mod Program
