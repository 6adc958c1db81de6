pub mod Derive
pub mod Noted
