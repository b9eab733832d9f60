pub mod Accounts
pub mod Added
pub mod Bounds
pub mod Reasons
pub mod Turns
