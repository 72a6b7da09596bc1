pub mod Products
pub mod Starting
pub mod Conversion
pub mod Turning
pub mod Estimating
pub mod Recurring
pub mod Finishing
