pub mod Standing
pub mod Members
pub mod Taking
pub mod Answering
pub mod Faithful
pub mod Writing
