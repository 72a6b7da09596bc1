pub mod Shifts
pub mod Forms
pub mod Plain
pub mod CarrySave
pub mod BorrowSave
