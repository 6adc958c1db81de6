pub mod Places
pub mod Fittings
pub mod Judgements
