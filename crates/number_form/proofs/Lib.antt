pub mod Adder
pub mod Shared
pub mod PlainLawful
pub mod CarrySaveLawful
pub mod BorrowSaveLawful
