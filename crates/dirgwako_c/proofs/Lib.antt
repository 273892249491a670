pub mod Alone
pub mod Called
pub mod HandleValues
pub mod Handing
pub mod Meeting
pub mod Made
pub mod Moved
pub mod Newest
pub mod Places
pub mod Reading
pub mod Replied
pub mod Rows
pub mod Sending
pub mod Settled
pub mod Values
mod Listing
