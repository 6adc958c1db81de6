pub mod Same
pub mod Lift
pub mod Bind
pub mod Example
