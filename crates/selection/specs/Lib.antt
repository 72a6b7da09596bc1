pub mod Starts
pub mod Operands
pub mod Selectors
pub mod Radix2
pub mod Radix4
