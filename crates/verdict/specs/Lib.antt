pub mod Names
pub mod Decided
