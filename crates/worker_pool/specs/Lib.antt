pub mod Jobs
pub mod Faults
pub mod Works
pub mod Ends
pub mod Pledges
