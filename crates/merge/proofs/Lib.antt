pub mod Places
pub mod Zipping
