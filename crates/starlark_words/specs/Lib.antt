pub mod Inner
pub mod OneIdentifier
