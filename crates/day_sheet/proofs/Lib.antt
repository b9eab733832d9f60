pub mod Columns
pub mod Rooms
pub mod Pages
