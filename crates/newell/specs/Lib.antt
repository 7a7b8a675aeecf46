pub mod Plain
pub mod History
pub mod Promise
pub mod Least
pub mod Numbers
pub mod Corridor
pub mod Now
