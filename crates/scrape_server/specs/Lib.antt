pub mod Again
pub mod Scrapes
pub mod Scans
pub mod Stream
