pub mod Lookups
pub mod Trying
