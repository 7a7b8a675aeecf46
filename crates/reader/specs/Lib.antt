pub mod Said
pub mod Checks
pub mod Faults
pub mod Files
pub mod Fresh
pub mod Heads
pub mod Calls
pub mod Laws
