pub mod SettledFour
pub mod Printing
mod ChildOf
mod Codes
mod Counting
mod Four
mod Making
mod Named
mod Sent
mod SixCounters
mod Totals
pub mod Reading
pub mod Settled
pub mod Pushed
pub mod QueuedJobs
pub mod Crew
pub mod Readying
pub mod Running
