pub mod Names
pub mod Quiet
pub mod Feeding
pub mod Chunks
