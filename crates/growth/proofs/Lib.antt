pub mod Between
pub mod Summed
pub mod Search
