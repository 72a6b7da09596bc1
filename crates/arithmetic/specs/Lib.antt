pub mod Residues
pub mod Estimates
