pub mod Shapes
pub mod Tracking
pub mod Stepping
pub mod Loading
