pub mod Faults
pub mod Lines
pub mod Decoding
pub mod Reading
pub mod Replaying
pub mod Laws
