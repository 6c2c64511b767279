pub mod Line
pub mod Kinds
