pub mod Rows
pub mod Sites
