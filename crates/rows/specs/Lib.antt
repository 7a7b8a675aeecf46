pub mod Faults
pub mod Kinds
pub mod Rows
pub mod Wants
pub mod Reading
