pub mod Entry
pub mod Words
pub mod Marks
pub mod Kept
pub mod Clean
pub mod Pat
