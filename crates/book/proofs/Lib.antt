pub mod Queueing
pub mod Turning
pub mod Matching
pub mod Calling
pub mod Ordering
pub mod Cancelling
pub mod Entering
