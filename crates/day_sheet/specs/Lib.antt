pub mod Fits
pub mod Clears
