pub mod Facts
pub mod Planning
pub mod Prefixing
