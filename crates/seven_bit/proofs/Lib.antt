pub mod Shortest
pub mod Filling
pub mod Encoding
