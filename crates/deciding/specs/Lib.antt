pub mod Ways
pub mod Rules
pub mod Scan
pub mod Found
pub mod Decide
