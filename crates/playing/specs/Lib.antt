pub mod Faults
pub mod Calls
pub mod Laws
pub mod Judging
pub mod Verdicts
