pub mod Addresses
pub mod Digits
pub mod Steps
pub mod Frame
pub mod Ranges
