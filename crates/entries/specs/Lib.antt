pub mod Faults
pub mod Format
pub mod Rules
pub mod Reading
pub mod Growth
pub mod Decoding
pub mod Texts
