pub mod Balances
pub mod Postings
pub mod Laws
pub mod Reasons
