pub mod Columns
pub mod Digits
pub mod Fills
pub mod Entries
pub mod Lines
pub mod Pieces
pub mod Showing
