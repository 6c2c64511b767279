pub mod Names
pub mod Rounding
pub mod Asks
