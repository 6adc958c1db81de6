pub mod Keys
pub mod Demands
pub mod Following
pub mod Beginnings
pub mod Limits
