pub mod Bounds
pub mod Buckets
pub mod Inside
pub mod Words
