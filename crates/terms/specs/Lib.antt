pub mod Terms
pub mod Bits
pub mod Nodes
pub mod Sets
pub mod Tables
