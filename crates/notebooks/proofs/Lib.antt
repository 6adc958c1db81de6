pub mod Paging
pub mod Rows
pub mod Tested
