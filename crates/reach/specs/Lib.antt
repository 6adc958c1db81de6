pub mod Numbers
pub mod Parts
pub mod Steps
pub mod Reached
