pub mod AfterOpen
pub mod Told
