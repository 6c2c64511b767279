pub mod Names
pub mod Opened
pub mod Asks
