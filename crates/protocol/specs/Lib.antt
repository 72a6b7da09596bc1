pub mod Refusals
pub mod Operands
pub mod History
pub mod Jobs
pub mod Bank
pub mod Promise
pub mod Plays
pub mod Story
