pub mod View
pub mod Plans
