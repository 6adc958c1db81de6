pub mod Strands
pub mod Lawful
