pub mod Descend
pub mod Find
pub mod Rights
pub mod Protect
pub mod Map
pub mod Spare
pub mod AtOnce
pub mod Unmap
