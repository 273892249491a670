pub mod Desc
pub mod Labels
pub mod Histogram
