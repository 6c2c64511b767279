pub mod Names
pub mod Memory
