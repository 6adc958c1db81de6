pub mod View
pub mod Checking
pub mod Sheets
pub mod Drafting
pub mod Loading
pub mod Refusing
pub mod Tracking
