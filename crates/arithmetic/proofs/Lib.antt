pub mod Ring
pub mod Congruence
pub mod Words
pub mod Squares
pub mod Powers
pub mod Cases
