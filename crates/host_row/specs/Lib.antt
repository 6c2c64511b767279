pub mod Names
pub mod Packed
