pub mod Asked
pub mod Needed
pub mod Asking
pub mod Told
