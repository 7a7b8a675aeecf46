pub mod Net
pub mod Layouts
pub mod Nets
pub mod Scans
pub mod Begun
pub mod Drafts
