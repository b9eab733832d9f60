pub mod Bounds
pub mod Forced
