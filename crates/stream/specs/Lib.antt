pub mod Answers
pub mod Entries
pub mod Tellings
pub mod Runs
