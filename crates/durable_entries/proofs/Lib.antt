pub mod Again
pub mod Maps
pub mod Walking
