pub mod Digests
pub mod Faults
pub mod Laws
pub mod Printing
pub mod Replies
pub mod Statuses
