pub mod Letters
pub mod Means
pub mod Prices
pub mod Rules
pub mod Tally
pub mod Words
