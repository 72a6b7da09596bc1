pub mod Halves
pub mod Spacing
pub mod Ties
pub mod Rounding
pub mod Determined
pub mod Correct
