pub mod Series
pub mod Judging
