pub mod Order
pub mod Reading
pub mod Text
pub mod Typed
