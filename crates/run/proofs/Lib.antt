pub mod Laying
pub mod Booking
pub mod Answering
