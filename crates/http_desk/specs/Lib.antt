pub mod Gives
pub mod Replies
