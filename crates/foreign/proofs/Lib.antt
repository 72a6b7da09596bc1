pub mod DualRailLawful
pub mod MiddleStartLawful
