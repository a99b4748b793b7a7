pub mod Log
pub mod Rule
pub mod Plays
pub mod Chairs
pub mod PrivateSeats
