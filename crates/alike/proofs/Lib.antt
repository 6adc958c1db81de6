pub mod Heading
pub mod Ending
