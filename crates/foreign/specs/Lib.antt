pub mod DualRail
pub mod MiddleStart
