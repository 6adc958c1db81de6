pub mod Adds
pub mod Lines
pub mod Showing
