mod Answering
mod Wrapping
pub mod Reading
mod Published
mod Spacing
pub mod Moment
mod Naming
