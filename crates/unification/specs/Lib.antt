pub mod Sizes
pub mod Bindings
pub mod Asking
pub mod Reaching
pub mod Classes
pub mod Steps
pub mod Index
