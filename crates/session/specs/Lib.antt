pub mod Reading
pub mod Chunks
pub mod Printing
