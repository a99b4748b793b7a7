pub mod Each
pub mod HypRule
pub mod WayEnds
