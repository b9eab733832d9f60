pub mod Products
pub mod Sums
pub mod Counts
pub mod Closed
