pub mod Numbering
pub mod Forming
pub mod Writing
