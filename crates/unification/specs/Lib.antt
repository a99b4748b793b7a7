pub mod Known
pub mod PrivateGraph
pub mod PrivateOrder
pub mod Solutions
pub mod Terms
