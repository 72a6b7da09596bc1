pub mod Written
pub mod Grouping
pub mod Turning
pub mod Coursing
pub mod Honest
