pub mod Once
pub mod Running
pub mod Judging
