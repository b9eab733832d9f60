pub mod Between
pub mod Found
pub mod Laws
pub mod Means
pub mod Orders
pub mod Rules
pub mod Turns
