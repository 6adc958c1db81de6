pub mod Sets
pub mod Marking
pub mod Closing
pub mod Stepping
pub mod Finding
pub mod Variables
