pub mod Runs
pub mod Notices
pub mod Trading
pub mod Money
pub mod Law
