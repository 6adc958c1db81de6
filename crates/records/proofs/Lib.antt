pub mod Fronts
pub mod Scanning
pub mod Rows
