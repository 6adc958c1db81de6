pub mod Lists
pub mod Numbers
pub mod Paging
