pub mod Quiet
pub mod Feeding
pub mod Turns
pub mod Chunks
pub mod Joined
