pub mod Heads
pub mod Finding
