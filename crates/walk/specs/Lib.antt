pub mod Walk
pub mod Reads
