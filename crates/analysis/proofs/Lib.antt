pub mod Finding
pub mod Composing
pub mod Settling
pub mod Deciding
pub mod Marking
pub mod Growing
pub mod Making
