pub mod Lines
pub mod Tables
pub mod Faults
pub mod Tokens
pub mod Texts
pub mod Numbers
