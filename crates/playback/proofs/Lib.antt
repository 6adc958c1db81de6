pub mod Played
pub mod Followed
