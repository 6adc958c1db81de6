pub mod Bitsets
pub mod Unfolding
pub mod Gathering
pub mod Equality
