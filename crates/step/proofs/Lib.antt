pub mod Noting
pub mod Stepping
