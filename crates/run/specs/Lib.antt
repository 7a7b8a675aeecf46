pub mod Opens
pub mod Stores
