pub mod Places
pub mod Tables
pub mod Steps
pub mod Effects
pub mod Benches
