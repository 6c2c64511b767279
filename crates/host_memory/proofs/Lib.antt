pub mod AllLines
pub mod Places
