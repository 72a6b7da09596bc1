pub mod Modes
pub mod MarkSets
pub mod Words
pub mod Rsqrt
pub mod Readings
