pub mod Recurrence
pub mod Root
pub mod Stages
