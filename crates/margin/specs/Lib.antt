pub mod Question
pub mod Laws
pub mod Rules
pub mod Settings
pub mod Flats
pub mod Kept
