pub mod Numbers
pub mod Rows
pub mod Kinds
pub mod Lines
pub mod Printed
pub mod Cuts
