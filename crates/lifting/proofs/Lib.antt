pub mod Lists
pub mod Instances
pub mod Comparing
pub mod Lifting
pub mod Walking
pub mod Meeting
