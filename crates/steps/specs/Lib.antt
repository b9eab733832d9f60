pub mod Phases
pub mod State
pub mod Margins
pub mod Deals
pub mod Refusals
pub mod Steps
pub mod Questions
