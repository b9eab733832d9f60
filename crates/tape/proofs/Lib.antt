pub mod Cuts
pub mod Days
pub mod Numbers
