pub mod Giving
pub mod Settling
pub mod Finding
pub mod Reading
pub mod Breaking
pub mod Saying
