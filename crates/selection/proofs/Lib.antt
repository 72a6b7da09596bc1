pub mod Range
pub mod Scale
pub mod Guard
pub mod Radix2Digit
pub mod Radix2Lawful
pub mod Radix4Digit
pub mod Radix4First
pub mod Radix4Lawful
