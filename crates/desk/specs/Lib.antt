pub mod Views
pub mod Moves
pub mod Served
pub mod Bargains
