pub mod Counts
pub mod Readings
pub mod Tables
pub mod Yards
