pub mod Ids
pub mod Opening
pub mod Lines
pub mod Whole
