pub mod Faults
pub mod Matchings
pub mod Trials
