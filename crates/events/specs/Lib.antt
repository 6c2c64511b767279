pub mod Cutting
pub mod Prices
