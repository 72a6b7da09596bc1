pub mod Seen
pub mod Replies
