pub mod Searches
pub mod Inner
