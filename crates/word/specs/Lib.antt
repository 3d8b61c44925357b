pub mod Bytes
pub mod Memory
pub mod Writes
pub mod Scan
pub mod Runs
