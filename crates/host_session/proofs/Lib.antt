pub mod Replies
pub mod Walk
