pub mod Forms
pub mod Certificates
pub mod Verdicts
