pub mod Turning
pub mod Keeping
pub mod Changing
pub mod Noting
pub mod Spacing
