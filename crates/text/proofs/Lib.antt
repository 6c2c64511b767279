pub mod Digits
pub mod Signs
pub mod Telling
pub mod Putting
pub mod Rows
